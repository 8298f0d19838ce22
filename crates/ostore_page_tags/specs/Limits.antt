-- The limits that pages are about.
pub use Rattle.ostore_base.specs.Limits.{most_types, largest_cell, most_segments, most_roots, least_pages, most_pages, longest_schema}
