-- Lists of a text that aren't closed yet.
use Rattle.std.specs.Prelude.{All, List, ◌∷◌}
use Rattle.std.specs.List.{flat_map}
use Rattle.core_text.specs.Tokens.{Piece, piece, opening}
use Rattle.core_text.specs.Forms.{IsWellSpelled}
use Rattle.core_text.specs.Placed.{form_of, layout, placed}
use Rattle.core_text.specs.declared.sexps.Sexp.{Sexp}
use Rattle.core_text.specs.declared.brackets.Frame.{Frame}

-- the pieces that spell forms, one after the other
abbrev pub layout_of_items : List Sexp → List Piece
layout_of_items items = flat_map (λ s. layout (placed s)) items

abbrev pub frame_layout : Frame → List Piece
frame_layout frame = piece opening frame.place ∷ layout_of_items frame.items.items

-- the pieces that spell open lists, the outermost first
abbrev pub open_layout : List Frame → List Piece
open_layout frames = flat_map frame_layout frames

-- what stands in the open lists is well spelled
abbrev pub HasGoodItems : Frame → Type 0
HasGoodItems frame = All (λ s. IsWellSpelled (form_of s)) frame.items.items
