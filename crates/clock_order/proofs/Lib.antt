mod Permuting
mod Moving
mod OnePerPart
mod Leading
mod Starting
mod Whole
