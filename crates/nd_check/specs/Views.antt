-- What the values that the program holds stand for.
use Rattle.core_text.specs.Placed.{placed, placed_all}
use Rattle.nd_check.specs.declared.texts.TextParts.{TextParts}
use Rattle.nd_check.specs.Reading.{Parts}

abbrev pub plain_parts : TextParts → Parts
plain_parts parts = record { version = placed parts.version.now; lines = placed_all parts.lines.now }
