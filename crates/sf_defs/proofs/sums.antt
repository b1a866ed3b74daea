mod SumRows
