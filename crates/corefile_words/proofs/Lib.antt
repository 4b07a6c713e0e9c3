pub mod Cuts
pub mod Numbers
pub mod Variables
pub mod Steps
pub mod Texts
pub mod BadLines
