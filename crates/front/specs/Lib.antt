-- What listing answers. Read Listing (the front of an instance, the room, the runs), then Refusals and Answers. Computed has the front by enumeration.
pub mod Listing
pub mod Computed
pub mod Refusals
pub mod Answers
