pub mod Eax
