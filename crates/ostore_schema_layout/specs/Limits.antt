-- The limits that schemas are about.
pub use Rattle.ostore_base.specs.Limits.{longest_schema, most_types, most_members, longest_text, largest_cell}
