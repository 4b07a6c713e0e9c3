pub mod Sets
pub mod Tree
pub mod Ready
pub mod Marks
