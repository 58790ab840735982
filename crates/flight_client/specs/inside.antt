-- What only the contracts of private functions cite.
pub mod NumberedFaults
pub mod GatheredStreams
pub mod TypedColumns
