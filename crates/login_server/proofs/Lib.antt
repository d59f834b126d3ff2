-- Octets for which a server sends nothing change nothing.
pub mod Silent
