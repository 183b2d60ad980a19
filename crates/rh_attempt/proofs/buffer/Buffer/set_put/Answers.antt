use Rattle.std.proofs.Common.{sym, ◌∙◌, ap, ◌==◌, ◌≡◌, List, Some, None}
use Rattle.std.specs.List.{position}
use Rattle.rh_plan.specs.declared.made_put.MadePut.{MadePut}
use Rattle.rh_plan.specs.Buffers.{BufferData, buffer_data, puts_with}
use Rattle.rh_attempt.proofs.Puts.{replaced, none_replaced}
use Rattle.rh_attempt.proofs.buffer.Buffer.set_put.Goals as goal

pub returns-in-Some : goal.returns-in-Some
returns-in-Some c =
    let q = c.args.promise in
    let words = c.args.words in
    let inside = c.self.inside in
    let place : position (λ (p : MadePut). p.promise == q) inside.puts.items ≡ Some c.in-Some.at = sym (c.in-Some.ensures ∙ ap (λ (l : List MadePut). position (λ (p : MadePut). p.promise == q) l) c.as_slice.ensures.value) in
    ap (λ (l : List MadePut). buffer_data l inside.drops) (replaced q words inside.puts.items c.in-Some.at place)
    ∙ ap (λ (b : BufferData). buffer_data (puts_with q words b.puts) b.drops) c.self.view_is

pub returns-in_default : goal.returns-in_default
returns-in_default c =
    let q = c.args.promise in
    let words = c.args.words in
    let puts = c.as_slice.ensures.value ∙ ap (λ (b : BufferData). b.puts) c.self.view_is in
    let none : position (λ (p : MadePut). p.promise == q) c.args.self.now.puts ≡ None = ap (λ (l : List MadePut). position (λ (p : MadePut). p.promise == q) l) (sym puts) ∙ sym c.first_put.ensures ∙ c.in_default.is in
    ap (λ (l : List MadePut). buffer_data l c.args.self.now.drops) (none_replaced q words c.args.self.now.puts none)
