mod RequestRows
