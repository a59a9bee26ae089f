-- Laws for the crates above: what is stored is read back and the rest stays (FieldLaws), equal numbers have equal bytes and two's
-- complement goes there and back (ByteLaws), the check and the worked example of the RFC (CheckLaws).
pub mod FieldLaws
pub mod ByteLaws
pub mod CheckLaws
