-- What describes private steps of the code: no clause of a public function cites these.
pub mod Added
pub mod Chain
pub mod Fetches
pub mod Joined
pub mod Named
pub mod Stops
pub mod Views
