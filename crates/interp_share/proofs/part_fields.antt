mod Scatters
mod Totals
