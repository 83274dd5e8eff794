-- The plain form's number is 1 exactly where it is refused for a bad state.
use Rattle.std.proofs.Common.{◌≡◌, false, eqb, Result, Ok, Err, refl, sym, ap, ◌∙◌, arith}
use Rattle.std.proofs.lemmas.Bool.{eqb-true, lt-ltb, le-ltb}
use Rattle.std.proofs.lemmas.Result.{err_from_is_err_and}
use Rattle.std.specs.Result.{result_eq}
use Rattle.std.specs.contracts.prelude.UnitPartialEq.TheImpl as unit
use Rattle.vdp_state.specs.contracts.answer.RefusalPartialEq.TheImpl as refusal
use Rattle.vdp_state.specs.declared.answer.Refusal.{Refusal}
use Rattle.vdp_state.specs.declared.answer.Refusal.TheVariants.{BadState, BadBuffer, Busy, NotModelled, NoSuchPlace, TapeFull, SourceNotLent, BadRecord, NothingThere, BadScript, MissingRegister}
use Rattle.vdp_state.specs.Answer.{number, number_in}
use Rattle.vdp_tape.proofs.Numbers.{above_zero, numbered}
use Rattle.vdp_tape.specs.Number.{capacity}
use Rattle.vdp_tape.proofs.number.tape_check.Goals as goal

is_one : (plain : Result (Unit {0}) Refusal) → result_eq unit.eq-value.it refusal.eq-value.it plain (Err BadState) ≡ eqb (number_in plain) 1
is_one (Ok x) = refl
is_one (Err BadState) = refl
is_one (Err BadBuffer) = refl
is_one (Err Busy) = refl
is_one (Err NotModelled) = refl
is_one (Err NoSuchPlace) = refl
is_one (Err TapeFull) = refl
is_one (Err SourceNotLent) = refl
is_one (Err BadRecord) = refl
is_one (Err NothingThere) = refl
is_one (Err BadScript) = refl
is_one (Err MissingRegister) = refl

pub returns-then-eq : goal.returns-then-eq
returns-then-eq c =
    let e = sym (is_one c.args.plain) ∙ sym c.if-eq.ensures in
    numbered (eqb-true (number_in c.args.plain) 1 e ∙ sym (simp e))

pub returns-then-room-count : goal.returns-then-room-count
returns-then-room-count c =
    let e = sym (is_one c.args.plain) ∙ sym c.if-eq.ensures in
    numbered (sym (simp (e, lt-ltb (capacity c.args.tape.now) c.args.count (omega arith))))

pub returns-in_err-plain : goal.returns-in_err-plain
returns-in_err-plain c =
    let x = c.in_err-plain.field-0.0 in
    let other : eqb (number x) 1 ≡ false = ap (λ (r : Result (Unit {0}) Refusal). eqb (number_in r) 1) (sym c.in_err-plain.was) ∙ sym (is_one c.args.plain) ∙ sym c.if-eq.ensures in
    let within = le-ltb (capacity c.args.tape.now) c.args.count (omega arith) in
    let p = err_from_is_err_and c.from_residual.result c.from_residual.ensures.1 in
    rw (p.1, p.2) (rw c.in_err-plain.was (numbered (sym (simp (other, within, above_zero x)))))
