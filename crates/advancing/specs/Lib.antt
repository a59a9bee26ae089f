-- What the next point is: read Next. What the caller keeps from one point to the next: read Stocked.
pub mod Next
pub mod Stocked
