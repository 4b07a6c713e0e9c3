mod Single
mod Judged
mod Orders
