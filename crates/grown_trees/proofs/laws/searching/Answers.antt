use Rattle.std.proofs.Common.{Contains}
use Rattle.grown_trees.proofs.Searching.{search_finds}
use Rattle.grown_trees.proofs.laws.searching.Goals as goal

pub returns : goal.returns
returns c formula weight level t s trees = search_finds formula weight level t s (Contains trees)
