pub mod Listing
pub mod Show
pub mod Taking
pub mod Laws
pub use Rattle.np_message.specs.Encoding
pub use Rattle.np_model.specs.Journal
pub use Rattle.np_model.specs.Refused
pub use Rattle.np_wire_laws.specs.Laws as MessageLaws
