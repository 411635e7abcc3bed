use Rattle.std.proofs.Common.{List, [], ◌∷◌}
use Rattle.std.proofs.lemmas.Result.{on_ok_weaker}
use Rattle.grid_model.specs.Deltas.{Part, u32, u64, text, each, mark, passed, running_call, call}
use Rattle.row_codec.proofs.Adding.{adds, adds_last}
use Rattle.row_codec.proofs.commands.put_pending.Goals as goal

pub returns : goal.returns
returns c =
    let r = c.args.row.now in
    let last = each call r.undo in
    let parts_7 : List Part = last ∷ [] in
    let parts_6 : List Part = running_call r.running ∷ parts_7 in
    let parts_5 : List Part = each passed r.passed ∷ parts_6 in
    let parts_4 : List Part = each mark r.marks ∷ parts_5 in
    let parts_3 : List Part = text r.line ∷ parts_4 in
    let parts_2 : List Part = u32 r.user ∷ parts_3 in
    let parts_1 : List Part = u64 r.number ∷ parts_2 in
    let o = c.args.out.now.items in
    let o1 = c.put_u64.new.out.items in
    let o2 = c.put_u64-2.new.out.items in
    let o3 = c.put_u32.new.out.items in
    let o4 = c.put_text.new.out.items in
    let o5 = c.put_list.new.out.items in
    let o6 = c.put_list-2.new.out.items in
    let o7 = c.put_running.new.out.items in
    let end = c.put_list-3.new.out.items in
    on_ok_weaker c.put_list-3.result
    (λ e.
    adds (u64 r.run) parts_1 o o1 end c.in_ok-put_u64.ensures
    (adds (u64 r.number) parts_2 o1 o2 end c.in_ok-put_u64-2.ensures
    (adds (u32 r.user) parts_3 o2 o3 end c.in_ok-put_u32.ensures
    (adds (text r.line) parts_4 o3 o4 end c.in_ok-put_text.ensures
    (adds (each mark r.marks) parts_5 o4 o5 end c.in_ok-put_list.ensures
    (adds (each passed r.passed) parts_6 o5 o6 end c.in_ok-put_list-2.ensures
    (adds (running_call r.running) parts_7 o6 o7 end c.in_ok-put_running.ensures
    (adds_last last o7 end e))))))))
    c.put_list-3.ensures
