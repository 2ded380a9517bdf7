pub mod KnownParts
