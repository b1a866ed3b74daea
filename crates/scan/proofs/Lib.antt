mod Splits
mod Digits
mod Rounds
mod Fractions
mod Runs
mod Ahead
mod Places
mod Quoting
