mod Beginnings
mod Found
mod Letters
