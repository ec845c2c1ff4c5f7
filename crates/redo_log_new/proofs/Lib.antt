mod JobRows
