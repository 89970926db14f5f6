use Rattle.std.proofs.Common.{◌≡◌, true, sym, ◌∙◌}
use Rattle.nd_rules.specs.Lines.{plain_line}
use Rattle.nd_rules.proofs.Rests.{rests, rests_covers, rests_hypotheses}
use Rattle.nd_rules.proofs.resting.has_hypotheses.Goals as goal

pub returns : goal.returns
returns c =
    let lines = c.args.outline.now in
    let l = plain_line c.args.line.now in
    let alone : c.rests_alone.result ≡ true = cc in
    let covers : c.covers_sources.result ≡ true = cc in (
      λ yes. rests lines l (c.rests_alone.ensures.0 alone) (sym c.covers_sources.ensures ∙ covers) (sym c.has_hypothesis_lines.ensures ∙ yes),
      λ h. c.has_hypothesis_lines.ensures ∙ rests_hypotheses lines l h,
    )

pub returns-then-not-covers_sources : goal.returns-then-not-covers_sources
returns-then-not-covers_sources c =
    let lines = c.args.outline.now in
    let l = plain_line c.args.line.now in
    (λ yes. cc, λ h. let covers = c.covers_sources.ensures ∙ rests_covers lines l h in cc)
