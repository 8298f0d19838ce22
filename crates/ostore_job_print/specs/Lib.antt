-- What the contracts of public calls rest on.
pub mod ReadBack
-- What only ties private code.
pub mod inside
