-- Laws about what the program writes.
mod Output
