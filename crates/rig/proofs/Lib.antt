mod Powers
mod Trying
