pub mod StoredObjectLemmas
