-- What the program's own pieces stand for.
use Rattle.core_text.specs.Tokens.{Piece, piece, opening, closing, word}
use Rattle.core_text.specs.declared.pieces.Piece.{Piece as CutPiece}
use Rattle.core_text.specs.declared.pieces.Piece.TheVariants as cut

abbrev pub plain_piece : CutPiece → Piece
plain_piece (cut.Opening k) = piece opening k
plain_piece (cut.Closing k) = piece closing k
plain_piece (cut.Word w k) = piece (word w.now) k
