mod Pieces
mod Basics
mod TextsExist
mod Reading
mod OneOrOther
mod Endings
mod Outcomes
