use Rattle.std.proofs.Common.{◌≡◌, Ok, sym, ◌∙◌, subst, arith}
use Rattle.sheets.specs.Bytes.{put}
use Rattle.sheets.specs.Sheets.{section_bytes}
use Rattle.sheets.specs.Writing.{AddKeeps, next_writer}
use Rattle.sheets.proofs.Stores.{stored_put}
use Rattle.sheets.proofs.Written.{length_section, add_keeps}
use Rattle.sheets.proofs.writer.SheetWriter.lay_section.Goals as goal

pub returns : goal.returns
returns c =
    let laid : c.store_section.new.sheet ≡ put c.args.sheet.now c.args.self.now.len (section_bytes c.args.k c.args.lines.now) =
    c.store_section.ensures.bytes ∙ stored_put (section_bytes c.args.k c.args.lines.now) c.args.sheet.now c.args.self.now.len (omega (arith, length_section c.args.k c.args.lines.now)) in
    record {
      bytes = laid;
      written = subst (AddKeeps (Ok tt) c.args.self.now c.args.sheet.now c.args.k c.args.lines.now (next_writer c.args.self.now c.args.k c.args.lines.now)) (sym laid)
          (add_keeps c.args.self.now c.args.sheet.now c.args.k c.args.lines.now (record { some = omega arith; most = omega arith; few = omega arith; fit = c.store_section.ensures.fit }));
    }
