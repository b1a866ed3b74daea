mod Lists
mod Asked
mod Summed
