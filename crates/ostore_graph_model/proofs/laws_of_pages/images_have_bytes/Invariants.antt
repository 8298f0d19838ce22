use Rattle.std.proofs.Common.{ℕ, ◌<◌, slice_index}
use Rattle.ostore_page_tags.specs.PageLists.{bytes_at}
use Rattle.ostore_graph_model.proofs.laws_of_pages.images_have_bytes.Given as goal

-- the images up to this one hold bytes
abbrev pub invariant-loop-image : goal.invariant-loop-image
invariant-loop-image l = (page : ℕ) → page < l.image-index → (k : ℕ) → slice_index (bytes_at l.images page) k < 256
