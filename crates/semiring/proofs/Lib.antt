-- The modules of this folder.
pub mod Sums
pub mod Totals
