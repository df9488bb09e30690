mod Words
mod Headers
