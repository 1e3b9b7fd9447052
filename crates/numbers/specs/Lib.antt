-- The layout of the numbers, what makes it a layout, and its tables in numbers.
pub mod Layout
pub mod Unpacked
pub mod Tables
pub mod Packing
