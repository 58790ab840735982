-- What only the contracts of private functions and types cite.
pub mod PartsView
pub mod SizedBatch
