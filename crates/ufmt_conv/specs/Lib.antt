pub mod Output
pub mod Command
pub mod Fault
pub use Rattle.ufmt_doc.specs.Doc
pub use Rattle.ufmt_doc.specs.ReadError
pub use Rattle.ufmt_doc.specs.Texts
