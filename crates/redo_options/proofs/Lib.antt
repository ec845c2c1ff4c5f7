mod ArgumentsRows
mod LimitsRows
mod PlanRows
