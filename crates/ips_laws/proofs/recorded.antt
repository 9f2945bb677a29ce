pub mod NoFault
pub mod OneFault
