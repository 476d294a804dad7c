-- Flat networks in lists, relaxation, and the certificate of the best rows.
pub mod Limits
pub mod Network
pub mod Certificate
pub mod Relax
pub mod Low
pub mod Arcs
pub mod Loans
