-- The round trip of instance text. Read RoundTrip.
pub mod RoundTrip
