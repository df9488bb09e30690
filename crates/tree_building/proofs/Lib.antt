mod Arities
mod LastItems
