pub mod PeerReads
pub mod EndRests
pub mod PrintOrder
pub mod Limits
pub mod Exchanges
pub mod Cuts
pub mod Sessions
