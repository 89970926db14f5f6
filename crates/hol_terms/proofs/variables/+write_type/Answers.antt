use Rattle.std.proofs.Common.{◌∙◌, ◌++◌, ap, ap₂, sym, encode_utf8_all}
use Rattle.std.specs.String.{string_bytes}
use Rattle.hol_terms.specs.Collected.{type_characters}
use Rattle.hol_terms.specs.Terms.{plain_type, function_type}
use Rattle.hol_terms.specs.declared.types.Ty.{Ty}
use Rattle.hol_terms.proofs.Collecting.{type_written}
use Rattle.hol_terms.proofs.variables.+write_type.Goals as goal

pub returns-in_ok-write_type-in-Fun-2 : goal.returns-in_ok-write_type-in-Fun-2
returns-in_ok-write_type-in-Fun-2 t c =
    type_written (plain_type c.deref.result.now) (plain_type c.deref-in-Fun.result.now) (string_bytes c.args.key.now)
    (string_bytes c.push-in-Fun.new.self) (string_bytes c.write_type.new.key) (string_bytes c.write_type-in-Fun.new.key)
    c.in_ok-push-in-Fun.ensures.bytes c.in_ok-write_type-in-Fun.ensures c.in_ok-write_type-in-Fun-2.ensures
    ∙ ap₂ (λ (r s : Ty). string_bytes c.args.key.now ++ encode_utf8_all (type_characters (function_type (plain_type r) (plain_type s)))) c.deref.ensures c.deref-in-Fun.ensures
    ∙ ap (λ (ty : Ty). string_bytes c.args.key.now ++ encode_utf8_all (type_characters (plain_type ty))) (sym c.in-Fun.is)
