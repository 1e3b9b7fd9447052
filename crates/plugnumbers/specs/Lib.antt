-- The layout of the serial plug's numbers, what makes it a layout, and its tables in numbers.
pub mod Layout
pub mod Unpacked
pub mod Tables
