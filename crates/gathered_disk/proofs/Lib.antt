mod Above
mod Follows
mod Steps
