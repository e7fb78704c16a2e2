pub mod Laws
pub use Rattle.np_message.specs.Message
pub use Rattle.np_message.specs.Encoding
pub use Rattle.np_message.specs.Rules
pub use Rattle.np_message.specs.Items
pub use Rattle.np_message.specs.Formats
pub use Rattle.np_message.specs.Decoding
pub use Rattle.np_message.specs.Faults
