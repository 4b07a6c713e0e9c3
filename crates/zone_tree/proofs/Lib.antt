mod Sorting
mod Picking
mod Shapes
mod Filling
mod Cutting
mod Glue
mod Marking
