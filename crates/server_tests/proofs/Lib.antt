pub mod WithoutFaults
