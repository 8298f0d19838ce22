-- What only ties private code: no contract of a public call cites it.
pub mod ReadFault
