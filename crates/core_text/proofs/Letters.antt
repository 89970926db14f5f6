-- Each base type that the program holds is a letter from A to Z.
use Rattle.hol_terms.specs.Terms.{plain_constant, plain_type}
use Rattle.hol_terms.specs.declared.types.Ty.{Ty}
use Rattle.hol_terms.specs.declared.types.Ty.TheVariants.{Base, Fun'}
use Rattle.hol_terms.specs.declared.terms.Con.{Con}
use Rattle.hol_terms.specs.declared.terms.Con.TheVariants.{Not, And, Or, Implies, Truth, Falsehood, All, Ex}
use Rattle.core_text.specs.CoreForms.{ConstantHasLetters, HasLetters}

pub type_letters : (ty : Ty) → HasLetters (plain_type ty)
type_letters (Base letter) = (letter.from_a, letter.to_z)
type_letters (Fun' p r q a) = (type_letters r, type_letters a)

pub constant_letters : (con : Con) → ConstantHasLetters (plain_constant con)
constant_letters Not = tt
constant_letters And = tt
constant_letters Or = tt
constant_letters Implies = tt
constant_letters Truth = tt
constant_letters Falsehood = tt
constant_letters (All ty) = type_letters ty
constant_letters (Ex ty) = type_letters ty
