-- The modules of this folder.
pub mod Answering
