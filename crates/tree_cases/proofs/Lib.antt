mod Strings
