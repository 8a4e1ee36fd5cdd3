use Rattle.text.proofs.Prelude.{sym, ◌∙◌}
use Rattle.stream.proofs.Streaming.{finished}
use Rattle.stream.proofs.finish.Goals as goal

pub returns-then-is_err : goal.returns-then-is_err
returns-then-is_err c = finished c.write_lines-went.ensures (λ d. d) c.stop.ensures

pub returns : goal.returns
returns c =
    let well = sym c.is_err.ensures.value ∙ c.if-is_err.false in
    finished c.write_lines-went.ensures (λ d. well) c.stop-2.ensures
